-- One turn of the loop sorts one place more.
use Rattle.pick_wiring.specs.Piled.{piled}
use Rattle.pick_wiring.proofs.Selection.{one_turn_sorts_one_more}
use Rattle.pick_wiring.proofs.pile.Pile.sort_front.Goals as goal

pub loop-i-preserved : goal.loop-i-preserved
loop-i-preserved c = one_turn_sorts_one_more (piled c.args.self.now) (piled c.loop-i.self) (piled c.bring_least.new.self) c.loop-i.i c.loop-i.invariant c.bring_least.ensures
