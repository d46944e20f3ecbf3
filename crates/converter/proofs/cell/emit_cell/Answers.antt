use Rattle.std.proofs.Common.{refl, sym, ◌∙◌}
use Rattle.converter.proofs.KindLaws.{kind_lut4, kind_pfumx, kind_l6mux21, kind_multiplier, kind_flip_flop, kind_io, kind_jtagg, kind_pll, cell_of, cell_alone}
use Rattle.converter.proofs.cell.emit_cell.Goals as goal

pub returns-in-Lut4-clause-wrote : goal.returns-in-Lut4-clause-wrote
returns-in-Lut4-clause-wrote c = cell_alone c.args.emitter.now c.args.cell.words.now c.args.cell.at (sym c.kind.ensures ∙ c.in-Lut4.is) c.args.works.now c.args.owner (kind_lut4 c.args.emitter.now c.args.cell.words.now c.args.cell.at c.bits.ensures c.word.ensures c.word-in-Lut4.ensures c.truth_table.ensures c.emit_lut4.ensures c.args.owner)

pub returns-in-Pfumx-clause-wrote : goal.returns-in-Pfumx-clause-wrote
returns-in-Pfumx-clause-wrote c = cell_alone c.args.emitter.now c.args.cell.words.now c.args.cell.at (sym c.kind.ensures ∙ c.in-Pfumx.is) c.args.works.now c.args.owner (kind_pfumx c.args.emitter.now c.args.cell.words.now c.args.cell.at c.pfumx.result c.pfumx.ensures c.emit_pfumx.ensures c.args.owner)

pub returns-in-L6mux21-clause-wrote : goal.returns-in-L6mux21-clause-wrote
returns-in-L6mux21-clause-wrote c = cell_alone c.args.emitter.now c.args.cell.words.now c.args.cell.at (sym c.kind.ensures ∙ c.in-L6mux21.is) c.args.works.now c.args.owner (kind_l6mux21 c.args.emitter.now c.args.cell.words.now c.args.cell.at c.l6mux21.result c.l6mux21.ensures c.emit_l6mux21.ensures c.args.owner)

pub returns-in-Ccu2c-clause-wrote : goal.returns-in-Ccu2c-clause-wrote
returns-in-Ccu2c-clause-wrote c = cell_alone c.args.emitter.now c.args.cell.words.now c.args.cell.at (sym c.kind.ensures ∙ c.in-Ccu2c.is) c.args.works.now c.args.owner (c.ccu2c_cell.ensures c.args.owner)

pub returns-in-Multiplier-clause-wrote : goal.returns-in-Multiplier-clause-wrote
returns-in-Multiplier-clause-wrote c = cell_alone c.args.emitter.now c.args.cell.words.now c.args.cell.at (sym c.kind.ensures ∙ c.in-Multiplier.is) c.args.works.now c.args.owner (kind_multiplier c.args.emitter.now c.args.cell.words.now c.args.cell.at c.emit_multiplier.ensures c.args.owner)

pub returns-in-FlipFlop-clause-wrote : goal.returns-in-FlipFlop-clause-wrote
returns-in-FlipFlop-clause-wrote c = cell_alone c.args.emitter.now c.args.cell.words.now c.args.cell.at (sym c.kind.ensures ∙ c.in-FlipFlop.is) c.args.works.now c.args.owner (kind_flip_flop c.args.emitter.now c.args.cell.words.now c.args.cell.at c.args.owner)

pub returns-in-BlockRam-clause-wrote : goal.returns-in-BlockRam-clause-wrote
returns-in-BlockRam-clause-wrote c = cell_of c.args.emitter.now c.args.cell.words.now c.args.cell.at (sym c.kind.ensures ∙ c.in-BlockRam.is) c.args.works.now c.args.owner c.block_ram_cell.ensures

pub returns-in-BlockRam-clause-works : goal.returns-in-BlockRam-clause-works
returns-in-BlockRam-clause-works c = record { parts = refl; values = refl; parts_size = c.block_ram_cell.auto.parts; values_size = c.block_ram_cell.auto.values }

pub returns-in-DistributedRam-clause-wrote : goal.returns-in-DistributedRam-clause-wrote
returns-in-DistributedRam-clause-wrote c = cell_alone c.args.emitter.now c.args.cell.words.now c.args.cell.at (sym c.kind.ensures ∙ c.in-DistributedRam.is) c.args.works.now c.args.owner (c.distributed_ram_cell.ensures)

pub returns-in-Io-clause-wrote : goal.returns-in-Io-clause-wrote
returns-in-Io-clause-wrote c = cell_alone c.args.emitter.now c.args.cell.words.now c.args.cell.at (sym c.kind.ensures ∙ c.in-Io.is) c.args.works.now c.args.owner (kind_io c.args.emitter.now c.args.cell.words.now c.args.cell.at c.io.result c.io.ensures c.emit_io.ensures c.args.owner)

pub returns-in-Jtagg-clause-wrote : goal.returns-in-Jtagg-clause-wrote
returns-in-Jtagg-clause-wrote c = cell_alone c.args.emitter.now c.args.cell.words.now c.args.cell.at (sym c.kind.ensures ∙ c.in-Jtagg.is) c.args.works.now c.args.owner (kind_jtagg c.args.emitter.now c.args.cell.words.now c.args.cell.at (record { recorder = refl; lists = c.emit_idle_jtagg.ensures.same; seen = refl; map = refl; size = refl }) refl c.emit_idle_jtagg.ensures c.args.owner)

pub returns-in-Pll-clause-wrote : goal.returns-in-Pll-clause-wrote
returns-in-Pll-clause-wrote c = cell_alone c.args.emitter.now c.args.cell.words.now c.args.cell.at (sym c.kind.ensures ∙ c.in-Pll.is) c.args.works.now c.args.owner (kind_pll c.args.emitter.now c.args.cell.words.now c.args.cell.at (record { recorder = refl; lists = c.emit_cycle_pll.ensures.same; seen = refl; map = refl; size = refl }) refl c.emit_cycle_pll.ensures c.args.owner)
