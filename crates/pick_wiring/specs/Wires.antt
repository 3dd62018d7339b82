-- What waits on a pick wiring.
use Rattle.masks.specs.Lines.{lanes_wait}
use Rattle.messages.specs.Waiting.{Waiting}
use Rattle.pick_wiring.specs.declared.pick_wiring.PickWiring.{PickWiring}

-- the masks of each server's lane
abbrev pub pick_waits : PickWiring → Waiting
pick_waits w = lanes_wait w.lanes
