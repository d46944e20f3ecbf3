-- The members of a bank, by the numbers that were noted for the cells.
use Rattle.std.specs.Prelude.{List, [], ℕ, zero, suc, ◌-◌, eqb, get_or}
use Rattle.netlist.specs.Fields.{cell_end}
use Rattle.behaviour.specs.Banks.{Member, kept}
use Rattle.converter.specs.declared.members.Cell.{Cell}
use Rattle.converter.specs.declared.members.Members.{Members}
use Rattle.converter.specs.Banked.{flop_at}

-- those of n cells, from cell c on at an index, for which this number was noted
unfoldable pub noted : List ℕ → List ℕ → ℕ → ℕ → ℕ → ℕ → List Member
noted words banks number zero c i = []
noted words banks number (suc n) c i = kept (eqb (get_or banks c 0) number) (record { cell = c; flop = flop_at words i }) (noted words banks number n (suc c) (cell_end words i))

-- a cell as a member
abbrev pub member_of : Cell → Member
member_of x = record { cell = x.number; flop = flop_at x.fields.words.now x.fields.at }

abbrev pub members_left : Members → List Member
members_left m = noted m.cell.fields.words.now m.numbers.now m.bank (m.end - m.cell.number) m.cell.number m.cell.fields.at
