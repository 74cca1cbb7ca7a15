use Rattle.rules.proofs.normal_forms_exist.Goals as goal
use Rattle.rules.proofs.Theorems.{normal_forms_exist}

pub returns : goal.returns
returns c = normal_forms_exist
