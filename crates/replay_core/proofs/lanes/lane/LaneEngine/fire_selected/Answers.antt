use Rattle.replay_core.proofs.lanes.lane.LaneEngine.fire_selected.Goals as goal

pub returns-clause-step : goal.returns-clause-step
returns-clause-step g c = λ m (runs, typed) selected. (c.in_ok-exits.ensures.run m runs selected (typed c.if-self.false)).fires

pub returns-clause-exits : goal.returns-clause-exits
returns-clause-exits g c = λ m (runs, typed) selected. (c.in_ok-exits.ensures.run m runs selected (typed c.if-self.false)).exited

pub returns-clause-script : goal.returns-clause-script
returns-clause-script g c = λ m (runs, typed) selected. (c.in_ok-exits.ensures.script m runs, λ fresh. (c.in_ok-exits.ensures.run m runs selected (typed c.if-self.false)).typed)
