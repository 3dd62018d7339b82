use Rattle.std.proofs.Common.{refl, arith, rules}
use Rattle.journal.specs.View.{view}
use Rattle.model.specs.Turns.{has_entry_of}
use Rattle.fleet.specs.View.{state}
use Rattle.choices.specs.declared.keys.Candidate.TheVariants.{Absent}
use Rattle.choices.specs.Keys.{IsEntry}
use Rattle.choices.proofs.Filled.{all_are_filled}
use Rattle.choices.proofs.entries.entry_keys.Goals as goal

pub returns-clause-keys : goal.returns-clause-keys
returns-clause-keys c = λ k l.
    let a = c.args in
    let journal = view a.journal.now in
    all_are_filled _ _ (λ k key. IsEntry (has_entry_of (state a.fleet.now journal) a.server a.group k) (journal.tag k) key) 256 (λ i y q low called. search rules)
    c.from_fn.result 0 256 _ refl (omega arith) c.from_fn.ensures.items.each k Absent (omega arith) (omega arith)
