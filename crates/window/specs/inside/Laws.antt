-- That a window keeps the laws of a store.
use Rattle.std.specs.Prelude.{◌≡◌, ℕ, ◌+◌, Bool, true, false, cond, is_some, None, Option, refl}
use Rattle.std.proofs.Common.{◌∙◌}
use Rattle.stores.specs.Meaning.{HeldTaken, Lasting}
use Rattle.window.specs.declared.Window.{Window}
use Rattle.window.specs.Window.{WindowKept, shows, window_entry, window_taken}

module _ {S : Type 0} where
  pub window_held : {V : Type 0} (entry : S → ℕ → Option V) (taken : S → ℕ → Bool) → ((s : S) → HeldTaken (entry s) (taken s)) → (w : Window S) → HeldTaken (window_entry entry w) (window_taken taken w)
  window_held entry taken held w a = at (shows w a)
    where
      at : (b : Bool) → is_some (cond b (entry w.below (w.base + a)) None) ≡ true → cond b (taken w.below (w.base + a)) false ≡ true
      at true h = held w.below (w.base + a) h
      at false h = h

  module _ {V : Type 0} (kept : S → S → Type 0) (lasting : Lasting kept) (entry : S → ℕ → Option V) where
    chained : (w x y : Window S) → WindowKept kept entry w x → WindowKept kept entry x y → WindowKept kept entry w y
    chained w x y p q = record {
      base_stays = q.base_stays ∙ p.base_stays;
      len_stays = q.len_stays ∙ p.len_stays;
      below_keeps = lasting.chained w.below x.below y.below p.below_keeps q.below_keeps;
      hidden_stay = λ b h. q.hidden_stay b (λ a. rw (p.base_stays, p.len_stays) (h a)) ∙ p.hidden_stay b h;
    }

    pub window_lasting : Lasting (WindowKept kept entry)
    window_lasting = record {
      same = λ w. record { base_stays = refl; len_stays = refl; below_keeps = lasting.same w.below; hidden_stay = λ b h. refl };
      chained = chained;
    }
