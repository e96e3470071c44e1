-- The commands that the code holds, without their references.
--     tell c                the command c
--     Commanded o r ws      r is the command of o, or none as o is, and ws the words left behind it
use Rattle.std.specs.Prelude.{◌≡◌, List, Some, None, Option}
use Rattle.script.specs.Commands.{Worded, w_open, w_read, w_close, w_begin, w_look, w_change, w_commit, w_abandon, w_kept, Taken}
use Rattle.script.specs.Words.{Part}
use Rattle.script.specs.Spans.{part}
use Rattle.script.specs.declared.command.Command.{Command}
use Rattle.script.specs.declared.command.Command.TheVariants.{Open, Read, Close, Begin, Look, Change, Commit, Abandon, Kept}

abbrev pub tell : Command → Worded
tell Open = w_open
tell (Read time i) = w_read (part time) (part i)
tell (Close time) = w_close (part time)
tell Begin = w_begin
tell (Look w i) = w_look (part w) (part i)
tell (Change w i a v) = w_change (part w) (part i) (part a) (part v)
tell (Commit w) = w_commit (part w)
tell (Abandon w) = w_abandon (part w)
tell (Kept i) = w_kept (part i)

abbrev pub Commanded : Option Taken → Option Command → List Part → Type 0
Commanded o None ws = o ≡ None
Commanded o (Some c) ws = o ≡ Some (record { command = tell c; left = ws })
