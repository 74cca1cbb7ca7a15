use Rattle.resolution.proofs.heads_agree.Goals as goal
use Rattle.resolution.proofs.Heads.{heads_agree}

pub returns : goal.returns
returns c = heads_agree
