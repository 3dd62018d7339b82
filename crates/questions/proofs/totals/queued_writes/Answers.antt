-- The chain adds up the queued writes of each server that stands.
use Rattle.std.proofs.Common.{ℕ, ◌∙◌, arith, rules, tests}
use Rattle.std.specs.List.{filter, range_with_len}
use Rattle.std.proofs.lemmas.Iterator.Consumers.{sum_by_from_yields_List, fits_by_from_yields_list}
use Rattle.fleet.specs.View.{servers}
use Rattle.journal.specs.View.{view}
use Rattle.counting.specs.Below.{count}
use Rattle.model.specs.State.{is_queued}
use Rattle.messages.specs.Waiting.{nothing}
use Rattle.counting.proofs.Counts.{a_count_is_at_most_its_bound}
use Rattle.questions.proofs.Standing.{those_that_pass_are_given, those_that_pass_add_up, so_much_for_each}
use Rattle.questions.proofs.totals.queued_writes.Goals as goal

pub sum-requires-clause-fits : goal.sum-requires-clause-fits
sum-requires-clause-fits c =
    let fleet = c.args.memory.now.fleet in
    let test = (servers fleet).standing in
    let queued : ℕ → ℕ = (λ p. count (is_queued (view c.args.memory.now.journal) p) 256) in
    let few = fleet.few in
    let total = those_that_pass_add_up test queued fleet.size in
    let small = so_much_for_each test queued 256 fleet.size (λ p. a_count_is_at_most_its_bound (is_queued (view c.args.memory.now.journal) p) 256) in
    fits_by_from_yields_list queued (filter test (range_with_len 0 fleet.size)) c.map.result _
    (those_that_pass_are_given test queued _ _ c.size.result fleet.size c.size.ensures.is c.filter.ensures.source c.filter.ensures.closure (λ x r q k. search (rules, tests)) c.map.ensures.source c.map.ensures.closure (λ x r q k. search (rules, tests)))
    (omega arith)

pub returns-clause-is : goal.returns-clause-is
returns-clause-is c = λ w.
    let fleet = c.args.memory.now.fleet in
    let test = (servers fleet).standing in
    let queued : ℕ → ℕ = (λ p. count (is_queued (view c.args.memory.now.journal) p) 256) in
    sum_by_from_yields_List queued (filter test (range_with_len 0 fleet.size)) c.map.result c.sum.result c.sum.ensures.ran
    (those_that_pass_are_given test queued _ _ c.size.result fleet.size c.size.ensures.is c.filter.ensures.source c.filter.ensures.closure (λ x r q k. search (rules, tests)) c.map.ensures.source c.map.ensures.closure (λ x r q k. search (rules, tests)))
    ∙ those_that_pass_add_up test queued fleet.size

pub returns-clause-few : goal.returns-clause-few
returns-clause-few c =
    let fleet = c.args.memory.now.fleet in
    let few = fleet.few in
    let is = returns-clause-is c nothing in
    let small = so_much_for_each (servers fleet).standing (λ p. count (is_queued (view c.args.memory.now.journal) p) 256) 256 fleet.size (λ p. a_count_is_at_most_its_bound (is_queued (view c.args.memory.now.journal) p) 256) in
    omega arith
