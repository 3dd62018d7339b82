-- Code, first number, second number and value are laid one behind another; what is not there lays nothing.
use Rattle.std.proofs.Common.{rules}
use Rattle.schedule_writer.proofs.Laid.{laid_in_turn, nothing_laid}
use Rattle.schedule_writer.proofs.writer.put_parts.Goals.{in-Some, in_default}
use Rattle.schedule_writer.proofs.writer.put_parts.Goals as goal

pub returns-in-Some-value : goal.returns-in-Some-value
returns-in-Some-value c = elim c.match-parts.branch [ in-Some w ↦ search (rules, laid_in_turn) | in_default w ↦ search (rules, laid_in_turn, nothing_laid) ]

pub returns-in_default-value : goal.returns-in_default-value
returns-in_default-value c = elim c.match-parts.branch [ in-Some w ↦ search (rules, laid_in_turn, nothing_laid) | in_default w ↦ search (rules, laid_in_turn, nothing_laid) ]
