use Rattle.ring.proofs.ring.Ring.answer.Goals as goal

pub returns : goal.returns
returns g c = λ w d. c.answer.ensures c.args.self.now.memory.fleet w d
