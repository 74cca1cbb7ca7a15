use Rattle.types.proofs.Encodings.{first_within}
use Rattle.types.proofs.words.split_type.Goals as goal

pub split_at-requires : goal.split_at-requires
split_at-requires c = first_within c.args.words.now _ c.in_ok-type_end.ensures.means
