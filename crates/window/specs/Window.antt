-- What a window means: the address a stands at base + a below, if it is shown.
use Rattle.std.specs.Prelude.{◌≡◌, ℕ, ◌+◌, ◌^◌, Bool, true, false, cond, ◌&&◌, None, Option, ◌≢◌, nat_lt}
use Rattle.window.specs.declared.Window.{Window}

module _ {S : Type 0} where
  -- whether the window shows the address a
  abbrev pub shows : Window S → ℕ → Bool
  shows w a = nat_lt a w.len && nat_lt (w.base + a) (2 ^ 32)

  -- what is held at a, given what is held below
  abbrev pub window_entry : {V : Type 0} → (S → ℕ → Option V) → Window S → ℕ → Option V
  window_entry entry w a = cond (shows w a) (entry w.below (w.base + a)) None

  -- whether a is taken, given what is taken below
  abbrev pub window_taken : (S → ℕ → Bool) → Window S → ℕ → Bool
  window_taken taken w a = cond (shows w a) (taken w.below (w.base + a)) false

  -- What a window keeps over a call: its base and length, what the store below keeps, and every entry below that it doesn't show.
  pub record WindowKept {V : Type 0} (kept : S → S → Type 0) (entry : S → ℕ → Option V) (w x : Window S) : Type 0 where
    pub base_stays : x.base ≡ w.base
    pub len_stays : x.len ≡ w.len
    pub below_keeps : kept w.below x.below
    pub hidden_stay : (b : ℕ) → ((a : ℕ) → shows w a ≡ true → b ≢ w.base + a) → entry x.below b ≡ entry w.below b
