use borrow.Author.Rules.{rules}
use Rattle.hosted.proofs.Ways.{powers_past, powers_of}
use Rattle.hosted.proofs.boddivarn_powers.Goals as goal

pub returns-then-part-ge64 : goal.returns-then-part-ge64
returns-then-part-ge64 c = search (powers_past)

pub returns : goal.returns
returns c = powers_of _ _ _ _ _ _ c.loaded.ensures (search rules) (λ h so. search rules) c.map_or.ensures
