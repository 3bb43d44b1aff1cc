-- The words that globals take, one after another.
use Rattle.std.proofs.Common.{◌≡◌, ℕ, zero, suc, ◌+◌, ◌*◌, ◌<◌, ◌≤◌, List, [], ◌∷◌, length, get_or, take, set, unwrap_or, Some, sym, ap, ◌∙◌, add-one, arith, below_more}
use Rattle.std.specs.List.{slice_get}
use Rattle.std.proofs.lemmas.List.{take_all, length-map}
use Rattle.std.proofs.Math.ListN.{get_or-map}
use Rattle.std.proofs.lemmas.Grind.{common_steps}
use Rattle.std.proofs.lemmas.Option.{gets}
use Rattle.content.specs.declared.kind.Kind.{Kind}
use Rattle.content.specs.declared.global.Global.{Global}
use Rattle.content.specs.Records.{global_from}
use Rattle.records.specs.Rows.{words_in}
use Rattle.parts.specs.Content.{globals}
use Rattle.rules.specs.Types.{size}
use Rattle.tables.specs.declared.places.Span.{Span}
use Rattle.tables.specs.Tables.{words, Placed}

module _ (types : List Kind) where
  words_suc : (gs : List Global) (k : ℕ) (d : Global) → k < length gs → words types (take (suc k) gs) ≡ words types (take k gs) + unwrap_or (size (slice_get types (get_or gs k d).kind)) 0 * (get_or gs k d).count
  words_suc [] k d h = absurd (omega arith)
  words_suc (g ∷ gs) zero d h = omega arith
  words_suc (g ∷ gs) (suc k) d h = let e = words_suc gs k d (omega arith) in omega (arith, e)

  pub words_more : (gs : List Global) (k : ℕ) (d : Global) → k < length gs → words types (take (k + 1) gs) ≡ words types (take k gs) + unwrap_or (size (slice_get types (get_or gs k d).kind)) 0 * (get_or gs k d).count
  words_more gs k d h = rw add-one (words_suc gs k d h)

  pub words_front : (gs : List Global) (k : ℕ) → words types (take k gs) ≤ words types gs
  words_front gs zero = omega arith
  words_front [] (suc k) = omega arith
  words_front (g ∷ gs) (suc k) = let l = words_front gs k in omega (arith, l)

pub words_all : (types : List Kind) (gs : List Global) (k : ℕ) → length gs ≤ k → words types (take k gs) ≡ words types gs
words_all types gs k h = ap (words types) (take_all k gs h)

-- the same, of a global that is read where it stands
pub words_next : (types : List Kind) (rs : List (List (List ℕ))) (k : ℕ) (d : List (List ℕ)) (g : Global) → k < length rs → g ≡ unwrap_or (global_from (words_in (get_or rs k d))) (record { kind = 0; count = 1 }) → words types (take (k + 1) (globals rs)) ≡ words types (take k (globals rs)) + unwrap_or (size (slice_get types g.kind)) 0 * g.count
words_next types rs k d g l e =
    let read : List (List ℕ) → Global = λ row. unwrap_or (global_from (words_in row)) (record { kind = 0; count = 1 }) in
    let here : get_or (globals rs) k (read d) ≡ g = get_or-map read rs k d ∙ sym e in
    words_more types (globals rs) k (read d) (omega (arith, length-map rs read, l))
    ∙ ap (λ (x : Global). words types (take k (globals rs)) + unwrap_or (size (slice_get types x.kind)) 0 * x.count) here

nth_set_same : {X : Type 0} (xs : List X) (i : ℕ) (x : X) → i < length xs → slice_get (set xs i x) i ≡ Some x
nth_set_same xs i x h = grind (arith, common_steps, gets)

nth_set_below : {X : Type 0} (xs : List X) (i k : ℕ) (x : X) → k < i → slice_get (set xs i x) k ≡ slice_get xs k
nth_set_below xs i k x h = grind (arith, common_steps, gets)

-- the first k globals are placed
pub record PlacedTo (types : List Kind) (gs : List Global) (spans : List Span) (k : ℕ) : Type 0 where
  pub each : (j : ℕ) → j < k → slice_get spans j ≡ Some (record { low = words types (take j gs); high = words types (take (j + 1) gs) })

module _ (types : List Kind) (gs : List Global) (spans : List Span) (k : ℕ) where
  pub placed_more : (a b : ℕ) → PlacedTo types gs spans k → a ≡ words types (take k gs) → b ≡ words types (take (k + 1) gs) → k < length spans → PlacedTo types gs (set spans k (record { low = a; high = b })) (k + 1)
  placed_more a b p ea eb l = record {
    each = below_more _ _
        (λ j h. nth_set_below spans k j (record { low = a; high = b }) h ∙ p.each j h)
        (nth_set_same spans k (record { low = a; high = b }) l ∙ ap (λ lo. Some (record { low = lo; high = b })) ea ∙ ap (λ hi. Some (record { low = words types (take k gs); high = hi })) eb);
  }

  pub placed_all : PlacedTo types gs spans k → length gs ≤ k → Placed types gs spans
  placed_all p h = record { each = λ j l. p.each j (omega arith) }
