-- What the table of layouts has of a local.
use Rattle.std.proofs.Common.{◌≡◌, ℕ, zero, suc, ◌<◌, ◌≤◌, [], length, get_or, take, replicate, refl, sym, ap, ◌∙◌, arith}
use Rattle.std.specs.Option.{option_map_or}
use native.Mathlib.Nat.{ℕ_set}
use mathlib.Core.Sum.{⊎_set}
use Rattle.std.proofs.lemmas.List.{length-take}
use Rattle.std.proofs.lemmas.Option.{slice_get_past, get_or_from_slice_get}
use Rattle.tables.specs.declared.layout.Local.{Local}
use Rattle.tables.specs.Tables.{plain, layout_of, LaidOut}
use Rattle.module.specs.declared.module.Module.{Module}
use Rattle.module.specs.Modules.{said, local_at}

local_set : IsSet Local
local_set = hlevel (ℕ_set, ⊎_set)

past_plain : (n x : ℕ) → get_or (replicate n plain) x plain ≡ plain
past_plain zero x = refl
past_plain (suc n) zero = refl
past_plain (suc n) (suc x) = past_plain n x

module _ (m : Module) (k x : ℕ) where
  laid_out : k < 64 → LaidOut (said m) m.sensitive m.layouts → get_or (get_or m.layouts k []) x plain ≡ local_at (said m) m.sensitive k x
  laid_out l t =
      ap (λ ls. get_or ls x plain) (get_or_from_slice_get m.layouts k _ [] (t k l))

  -- the table has what has to be known of a local, also behind the last function
  pub local_there : k < 64 → get_or (get_or m.layouts k []) x plain ≡ local_at (said m) m.sensitive k x
  local_there l = ∥∥₁_rec (local_set _ _) (laid_out l) m.laid_out

  -- nothing has to be known where there is no function
  pub local_past : 64 ≤ k → plain ≡ local_at (said m) m.sensitive k x
  local_past l =
      let n = m.parts.header.counts.functions in
      let h : length (take n m.parts.functions) ≤ k = omega (arith, l, length-take n m.parts.functions, m.parts.header.few.few_functions) in
      let q = ap (λ o. option_map_or (layout_of (said m) m.sensitive) o (replicate 8 plain)) (slice_get_past (said m).functions k h) in
      sym (ap (λ ls. get_or ls x plain) q ∙ past_plain 8 x)
