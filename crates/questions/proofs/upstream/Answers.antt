use borrow.Author.Rules.{rules}
use Rattle.questions.specs.Sets.{UpstreamSaid}
use Rattle.questions.proofs.Answering.{cone_formed}
use Rattle.questions.proofs.upstream.Goals as goal

pub returns : goal.returns
unfolding UpstreamSaid
returns c = cone_formed _ _ _ _ _ (λ b s post w. search rules) c.cone.ensures
