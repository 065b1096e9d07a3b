use Rattle.hosted.proofs.Ways.{load_of}
use Rattle.hosted.proofs.loaded.Goals as goal

pub returns : goal.returns
returns c = search (load_of)
