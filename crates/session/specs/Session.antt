-- "The session is closed; all closed sessions are one value." Assumes nothing.
use Rattle.std.specs.Prelude.{Option}
use Rattle.session.specs.declared.Opened.{Opened}

-- a session: open, or `None`, closed
abbrev pub Session : Type 0
Session = Option Opened
