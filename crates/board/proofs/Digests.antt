-- One word more is summed.
use Rattle.std.proofs.Common.{◌≡◌, ℕ, ◌+◌, ◌*◌, ◌%◌, ◌^◌, List, slice_index, ap, ◌∙◌, refl, add-one}
use Rattle.std.proofs.Math.Nat.{add-mod-mod, mod-add-mod}
use Rattle.std.proofs.lemmas.Nat.{mul-mod_first}
use Rattle.machine.specs.Values.{wrapped}
use Rattle.board.specs.Runs.{weighted}

joined : (ws : List ℕ) (i : ℕ) → weighted ws i + (i + 1) * slice_index ws i ≡ weighted ws (i + 1)
joined ws i = rw add-one refl

pub one_more : (ws : List ℕ) (i sum : ℕ) → sum ≡ wrapped (weighted ws i) → (sum + ((i + 1) % 2 ^ 32 * slice_index ws i) % 2 ^ 32) % 2 ^ 32 ≡ wrapped (weighted ws (i + 1))
one_more ws i sum so_far =
    ap (λ (x : ℕ). (sum + x) % 2 ^ 32) (mul-mod_first (i + 1) (slice_index ws i) (2 ^ 32))
    ∙ add-mod-mod sum ((i + 1) * slice_index ws i) (2 ^ 32)
    ∙ ap (λ (s : ℕ). (s + (i + 1) * slice_index ws i) % 2 ^ 32) so_far
    ∙ mod-add-mod (weighted ws i) (2 ^ 32) ((i + 1) * slice_index ws i)
    ∙ ap wrapped (joined ws i)
