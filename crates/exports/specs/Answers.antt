-- What a caller is answered where a call is done, and where it isn't.
use Rattle.std.specs.Prelude.{◌≡◌, ℕ, ◌-◌, ◌^◌, ◌⊎◌}

-- a call is done, and of its answer the one is so; or it isn't, for a reason of whose number the other is so, and the answer is that number counted down from the highest
abbrev pub Answered : (ℕ → Type 0) → (ℕ → Type 0) → ℕ → Type 0
Answered done undone n = done n ⊎ ((k : ℕ) × undone k × (n ≡ 2 ^ 64 - 1 - k))
