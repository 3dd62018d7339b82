-- The pile of the server hands out the place of the rank, and the rank counts the messages before it.
use Rattle.masks.proofs.Lines.{the_places_are_named}
use Rattle.pick_wiring.proofs.Ranking.{a_rank_picks_a_message}
use Rattle.pick_wiring.proofs.wiring_calls.PickWiringWiring.take.Goals as goal

pub returns-clause-picked : goal.returns-clause-picked
returns-clause-picked c =
    let named = the_places_are_named c.args.self.now.lanes c.args.server in
    a_rank_picks_a_message _ _ _ c.args.self.now.number c.take.result named.0 named.1 c.take.ensures.choice.0
