-- A store that is one of two meets the laws of stores, as both do.
use Rattle.std.specs.Prelude.{ℕ, Bool, Option}
use Rattle.stores.specs.Meaning.{HeldTaken, Lasting}
use Rattle.replay.specs.declared.either.Either.{Either}
use Rattle.replay.specs.declared.either.Either.TheVariants.{First, Second}
use Rattle.replay.specs.Either.{EitherKept, either}

module _ {X Y : Type 0} where
  pub either_held : {V : Type 0} (e : X → ℕ → Option V) (e' : Y → ℕ → Option V) (t : X → ℕ → Bool) (t' : Y → ℕ → Bool) → ((x : X) → HeldTaken (e x) (t x)) → ((y : Y) → HeldTaken (e' y) (t' y)) → (s : Either X Y) → HeldTaken (either e e' s) (either t t' s)
  either_held e e' t t' h h' (First x) = h x
  either_held e e' t t' h h' (Second y) = h' y

  module _ (k : X → X → Type 0) (k' : Y → Y → Type 0) (l : Lasting k) (l' : Lasting k') where
    same : (s : Either X Y) → EitherKept k k' s s
    same (First x) = l.same x
    same (Second y) = l'.same y

    chained : (s t u : Either X Y) → EitherKept k k' s t → EitherKept k k' t u → EitherKept k k' s u
    chained (First x) (First y) (First z) p q = l.chained x y z p q
    chained (First x) (First y) (Second z) p q = q
    chained (First x) (Second y) u p q = absurd p
    chained (Second x) (First y) u p q = absurd p
    chained (Second x) (Second y) (First z) p q = q
    chained (Second x) (Second y) (Second z) p q = l'.chained x y z p q

    pub either_lasting : Lasting (EitherKept k k')
    either_lasting = record { same = same; chained = chained }
