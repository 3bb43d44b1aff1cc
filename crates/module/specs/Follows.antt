-- When an image follows every rule, and when it is refused.
use Rattle.std.specs.Prelude.{ℕ, ◌≤◌, Bool, false, List, Decides, slice_index_or}
use Rattle.parts.specs.Content.{Content}
use Rattle.parts.specs.Holding.{Holds}
use Rattle.rules.specs.declared.rule.Rule.TheVariants.{Names, Types}
use Rattle.rules.specs.Judging.{Kept}
use Rattle.sensitivity.specs.Sensitive.{Sensitive}
use Rattle.tables.specs.Tables.{words}

-- the image s follows every rule, and says c
pub record Follows (s : List ℕ) (c : Content) : Type 0 where
  pub holds : Holds s c
  pub named : Kept Names c
  pub typed : Kept Types c
  pub fits : words c.types c.globals ≤ c.memory

-- the image s follows every rule
pub record Accepted (s : List ℕ) : Type 0 where
  pub content : Content
  pub follows : Follows s content

-- exactly the sensitive types are marked
abbrev pub Right : Content → List Bool → Type 0
Right c marks = (k : ℕ) → Decides (slice_index_or marks k false) (Sensitive c.types c.fields k)
