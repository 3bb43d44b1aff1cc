-- What was read and judged follows the rules.
use Rattle.std.proofs.Common.{◌≡◌, ℕ, List, sym, subst, arith}
use Rattle.header.specs.declared.header.Header.{Header}
use Rattle.header.specs.declared.counts.Counts.{Counts}
use Rattle.header.specs.Header.{Headed}
use Rattle.parts.specs.declared.image.Image.{Image}
use Rattle.parts.specs.Content.{shown}
use Rattle.parts.specs.Holding.{Listed, Holds}
use Rattle.rules.specs.declared.rule.Rule.TheVariants.{Names, Types}
use Rattle.rules.specs.Judging.{Kept}
use Rattle.tables.specs.declared.places.Places.{Places}
use Rattle.tables.specs.Tables.{AllPlaced}
use Rattle.module.specs.Follows.{Follows}

-- what was read from an image is held by it
pub held : (s : List ℕ) (h : Header) (p : Image) → p.header ≡ h → Headed s h.memory h.depth h.counts → Listed s h.counts (shown p) → Holds s (shown p)
held s h p e a l =
    let b : Headed s p.header.memory p.header.depth h.counts = subst (λ (k : Header). Headed s k.memory k.depth h.counts) (sym e) a in
    record {
      headed = subst (λ (n : Counts). Headed s p.header.memory p.header.depth n) a.counts_are b;
      listed = subst (λ (n : Counts). Listed s n (shown p)) a.counts_are l;
    }

pub followed : (s t : List ℕ) (h : Header) (p : Image) (g : Places) → t ≡ s → Headed s h.memory h.depth h.counts → (p.header ≡ h) × Listed t h.counts (shown p) × Kept Names (shown p) × Kept Types (shown p) → AllPlaced (shown p) g → Follows s (shown p)
followed s t h p g e a k q =
    record {
      holds = held s h p k.0 a (subst (λ b. Listed b h.counts (shown p)) e k.1);
      named = k.2;
      typed = k.3;
      fits = omega (arith, q.heap_is, q.within);
    }
