use Rattle.std.proofs.Common.{◌≡◌, ◌≤◌, length, ◌++◌, take, drop, vec_items}
use Rattle.state.proofs.Fresh.{rows_mine}
use Rattle.state.proofs.state.State.write_held.Given as goal

abbrev pub invariant-loop-i : goal.invariant-loop-i
invariant-loop-i g l =
    record {
      fits : l.n ≤ length l.out;
      front : take l.n l.out ++ rows_mine l.w l.i (drop l.i (vec_items l.self.records)) ≡ rows_mine l.w 0 (vec_items l.self.records);
      rest : drop l.n l.out ≡ drop l.n l.initial.out;
    }
