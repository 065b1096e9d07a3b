use borrow.Author.Rules.{rules}
use Rattle.questions.specs.Sets.{DownstreamSaid}
use Rattle.questions.proofs.Answering.{cone_formed}
use Rattle.questions.proofs.downstream.Goals as goal

pub returns : goal.returns
unfolding DownstreamSaid
returns c = cone_formed _ _ _ _ _ (λ b s post w. search rules) c.cone.ensures
