use Rattle.types.proofs.Encodings.{encoding}
use Rattle.types.proofs.types_and_words_correspond.Goals as goal

pub returns : goal.returns
returns c = encoding
