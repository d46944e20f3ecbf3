-- A line of `put_record`, by the kind of record: a signal's, an expression's, a statement's.
-- Assumes nothing.
use mathlib.Core.Path.{◌≡◌, refl}
use Rattle.lines.specs.Lines.{record_text, signal_text, expr_text, stmt_text}
use Rattle.lines.specs.contracts.records.SignalRecord.TheImpl as signal
use Rattle.lines.specs.contracts.records.ExpressionRecord.TheImpl as expression
use Rattle.lines.specs.contracts.records.StatementRecord.TheImpl as statement

pub signal_line : record_text signal.ghosts.letter signal.ghosts.names signal.ghosts.rest ≡ signal_text
signal_line = refl

pub expression_line : record_text expression.ghosts.letter expression.ghosts.names expression.ghosts.rest ≡ expr_text
expression_line = refl

pub statement_line : record_text statement.ghosts.letter statement.ghosts.names statement.ghosts.rest ≡ stmt_text
statement_line = refl
