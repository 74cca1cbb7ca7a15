use Rattle.std.proofs.Common.{◌≡◌, ◌+◌}
use Rattle.account.specs.Lines.{line_of, column_of}
use Rattle.account.proofs.cursor.Cursor.forward.Given as goal

-- the line and the column are those of the place reached
abbrev pub invariant-loop-b : goal.invariant-loop-b
invariant-loop-b l =
    let reached = l.self.place + l.b-index in
    (l.position.line ≡ line_of l.self.text.now reached) × (l.position.column ≡ column_of l.self.text.now reached)
