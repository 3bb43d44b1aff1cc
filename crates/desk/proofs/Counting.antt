-- The numbers of the sensitive types, one after another.
use Rattle.std.proofs.Common.{◌≡◌, ℕ, ◌+◌, ◌≤◌, Bool, false, cond, codes, decimal, List, [], ◌++◌, String, string_bytes, refl, length, get_or, Decides, ap, ◌∙◌, add-one, arith}
use Rattle.std.proofs.lemmas.List.{length-take}
use Rattle.std.proofs.lemmas.Bool.Decides.{same_from_decides}
use Rattle.sensitivity.specs.Sensitive.{Sensitive}
use Rattle.parts.specs.Content.{Content, viewed}
use Rattle.parts.specs.declared.lists.Lists.{Lists}
use Rattle.module.specs.Modules.{said}
use Rattle.module.specs.declared.module.Module.{Module}
use Rattle.desk.specs.Heard.{IsText, ListedSo}
use Rattle.desk.specs.Shown.{numbered}
use Rattle.desk.specs.declared.told.Told.TheVariants.{Text}
use Rattle.std.specs.declared.alloc.Global.{Global}

pub one_more : (marks : List Bool) (t : ℕ) → numbered marks (t + 1) ≡ numbered marks t ++ cond (get_or marks t false) (codes " " ++ decimal t) []
one_more marks t = ap (numbered marks) (add-one t)

module _ (m : Module) where
  pub is_marked : (t : ℕ) (b : Bool) → Decides b (Sensitive (said m).types (said m).fields t) → get_or m.sensitive t false ≡ b
  is_marked t b d = same_from_decides _ _ (m.right t) d

  pub few_types : (l : Lists) → viewed l ≡ said m → length l.types.now ≤ 64
  few_types l is =
      let few : m.parts.header.counts.types ≤ 64 = m.parts.header.few.few_types in
      omega (arith, ap (λ (k : Content). length k.types) is, length-take m.parts.header.counts.types m.parts.types)

  pub all_types : (l : Lists) (n : ℕ) (before text : List ℕ) → viewed l ≡ said m → n ≡ length l.types.now → text ≡ before ++ numbered m.sensitive n → text ≡ before ++ numbered m.sensitive (length (said m).types)
  all_types l n before text is all listed = listed ∙ ap (λ k. before ++ numbered m.sensitive k) (all ∙ ap (λ (k : Content). length k.types) is)

  pub listed : (text : String Global) → string_bytes text ≡ codes "sensitive" ++ (numbered m.sensitive (length (said m).types) ++ codes "\n") → IsText (ListedSo (said m)) (Text text)
  listed text told = (text, refl, (m.sensitive, m.right, told))
