use Rattle.std.proofs.Common.{sym, ◌∙◌}
use Rattle.converter.proofs.CellSignals.{cell_kind, cell_lut4, cell_pfumx, cell_l6mux21, cell_ccu2c, cell_multiplier, cell_flip_flop, cell_distributed, cell_io, cell_jtagg}
use Rattle.converter.proofs.Reserver.reserve_cell_output.Goals as goal

pub returns-in-Lut4 : goal.returns-in-Lut4
returns-in-Lut4 c = cell_kind c.args.cell c.args.owner c.args.self.now (sym c.kind.ensures ∙ c.in-Lut4.is) (cell_lut4 c.args.cell c.args.owner c.args.self.now c.word.ensures c.reserve_scalar.ensures)

pub returns-in-Pfumx : goal.returns-in-Pfumx
returns-in-Pfumx c = cell_kind c.args.cell c.args.owner c.args.self.now (sym c.kind.ensures ∙ c.in-Pfumx.is) (cell_pfumx c.args.cell c.args.owner c.args.self.now c.word-in-Pfumx.ensures c.reserve_scalar-in-Pfumx.ensures)

pub returns-in-L6mux21 : goal.returns-in-L6mux21
returns-in-L6mux21 c = cell_kind c.args.cell c.args.owner c.args.self.now (sym c.kind.ensures ∙ c.in-L6mux21.is) (cell_l6mux21 c.args.cell c.args.owner c.args.self.now c.word-in-L6mux21.ensures c.reserve_scalar-in-L6mux21.ensures)

pub returns-in-Ccu2c : goal.returns-in-Ccu2c
returns-in-Ccu2c c = cell_kind c.args.cell c.args.owner c.args.self.now (sym c.kind.ensures ∙ c.in-Ccu2c.is) (cell_ccu2c c.args.cell c.args.owner c.args.self.now c.from.ensures c.reserve_scalars.ensures)

pub returns-in-Multiplier : goal.returns-in-Multiplier
returns-in-Multiplier c = cell_kind c.args.cell c.args.owner c.args.self.now (sym c.kind.ensures ∙ c.in-Multiplier.is) (cell_multiplier c.args.cell c.args.owner c.args.self.now c.from-in-Multiplier.ensures c.reserve_vector.ensures)

pub returns-in-FlipFlop : goal.returns-in-FlipFlop
returns-in-FlipFlop c = cell_kind c.args.cell c.args.owner c.args.self.now (sym c.kind.ensures ∙ c.in-FlipFlop.is) (cell_flip_flop c.args.cell c.args.owner c.args.self.now)

pub returns-in-BlockRam : goal.returns-in-BlockRam
returns-in-BlockRam c = cell_kind c.args.cell c.args.owner c.args.self.now (sym c.kind.ensures ∙ c.in-BlockRam.is) c.reserve_block_ram.ensures

pub returns-in-DistributedRam : goal.returns-in-DistributedRam
returns-in-DistributedRam c = cell_kind c.args.cell c.args.owner c.args.self.now (sym c.kind.ensures ∙ c.in-DistributedRam.is) (cell_distributed c.args.cell c.args.owner c.args.self.now c.from-in-DistributedRam.ensures c.reserve_vector-in-DistributedRam.ensures)

pub returns-in-Io : goal.returns-in-Io
returns-in-Io c = cell_kind c.args.cell c.args.owner c.args.self.now (sym c.kind.ensures ∙ c.in-Io.is) (cell_io c.args.cell c.args.owner c.args.self.now c.word-in-Io.ensures c.reserve_scalar-in-Io.ensures)

pub returns-in-Jtagg : goal.returns-in-Jtagg
returns-in-Jtagg c = cell_kind c.args.cell c.args.owner c.args.self.now (sym c.kind.ensures ∙ c.in-Jtagg.is) (cell_jtagg c.args.cell c.args.owner c.args.self.now c.from-in-Jtagg.ensures c.reserve_scalars-in-Jtagg.ensures)

pub returns-in-Pll : goal.returns-in-Pll
returns-in-Pll c = cell_kind c.args.cell c.args.owner c.args.self.now (sym c.kind.ensures ∙ c.in-Pll.is) c.reserve_pll.ensures
