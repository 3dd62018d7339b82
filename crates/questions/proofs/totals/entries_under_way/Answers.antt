-- The chain adds up the entries of each server that stands.
use Rattle.std.proofs.Common.{◌∙◌, arith, rules, tests}
use Rattle.std.specs.List.{filter, range_with_len}
use Rattle.std.proofs.lemmas.Iterator.Consumers.{sum_by_from_yields_List, fits_by_from_yields_list}
use Rattle.fleet.specs.View.{servers}
use Rattle.questions.proofs.Bounds.{at_each, few_at_each}
use Rattle.questions.proofs.Standing.{those_that_pass_are_given, those_that_pass_add_up, so_much_for_each}
use Rattle.questions.proofs.totals.entries_under_way.Goals as goal

pub sum-requires-clause-fits : goal.sum-requires-clause-fits
sum-requires-clause-fits g c =
    let fleet = c.args.memory.now.fleet in
    let test = (servers fleet).standing in
    let entries = at_each (servers fleet) (g.W.Wiring.waits c.args.wiring.now) in
    let few = fleet.few in
    let total = those_that_pass_add_up test entries fleet.size in
    let small = so_much_for_each test entries 1024 fleet.size (few_at_each (servers fleet) (g.W.Wiring.waits c.args.wiring.now)) in
    fits_by_from_yields_list entries (filter test (range_with_len 0 fleet.size)) c.map.result _
    (those_that_pass_are_given test entries _ _ c.size.result fleet.size c.size.ensures.is c.filter.ensures.source c.filter.ensures.closure (λ x r q k. search (rules, tests)) c.map.ensures.source c.map.ensures.closure (λ x r q k. search (rules, tests)))
    (omega arith)

pub returns-clause-is : goal.returns-clause-is
returns-clause-is g c =
    let fleet = c.args.memory.now.fleet in
    let test = (servers fleet).standing in
    let entries = at_each (servers fleet) (g.W.Wiring.waits c.args.wiring.now) in
    sum_by_from_yields_List entries (filter test (range_with_len 0 fleet.size)) c.map.result c.sum.result c.sum.ensures.ran
    (those_that_pass_are_given test entries _ _ c.size.result fleet.size c.size.ensures.is c.filter.ensures.source c.filter.ensures.closure (λ x r q k. search (rules, tests)) c.map.ensures.source c.map.ensures.closure (λ x r q k. search (rules, tests)))
    ∙ those_that_pass_add_up test entries fleet.size

pub returns-clause-few : goal.returns-clause-few
returns-clause-few g c =
    let fleet = c.args.memory.now.fleet in
    let waits = g.W.Wiring.waits c.args.wiring.now in
    let few = fleet.few in
    let is = returns-clause-is g c in
    let small = so_much_for_each (servers fleet).standing (at_each (servers fleet) waits) 1024 fleet.size (few_at_each (servers fleet) waits) in
    omega arith
