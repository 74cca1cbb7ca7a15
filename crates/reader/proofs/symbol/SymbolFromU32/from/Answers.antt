use Rattle.std.proofs.Common.{ap, ◌≡◌, ◌∙◌, Option, None, Some, arith}
use Rattle.std.specs.Option.{unwrap_or, UnwrapsOrElse}
use Rattle.reader.specs.declared.class.Class.{Class}
use Rattle.reader.specs.declared.symbol.Symbol.{Symbol}
use Rattle.reader.proofs.symbol.SymbolFromU32.from.Goals as goal

or_first : (o : Option Symbol) (first symbol : Symbol) → UnwrapsOrElse o (λ s. s ≡ first) symbol → symbol ≡ unwrap_or o first
or_first None first symbol e = e
or_first (Some s) first symbol e = e

pub returns : goal.returns
returns c =
    let first = Symbol.Token Class.Open in
    or_first _ first _ c.unwrap_or_default.ensures ∙ ap (λ o. unwrap_or o first) c.copied.ensures ∙ c.get.ensures.lookup.4 (omega arith) first
