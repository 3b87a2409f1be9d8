use Rattle.replay_core.proofs.lanes.lane.LaneEngine.fire.Goals as goal

pub returns-clause-step : goal.returns-clause-step
returns-clause-step g c = λ m (runs, typed). c.fire_selected.ensures.step m (runs, typed) (c.in-Ok.ensures.indices m runs.clauses_mean.each)

pub returns-clause-exits : goal.returns-clause-exits
returns-clause-exits g c = λ m (runs, typed). c.fire_selected.ensures.exits m (runs, typed) (c.in-Ok.ensures.indices m runs.clauses_mean.each)

pub returns-clause-script : goal.returns-clause-script
returns-clause-script g c = λ m (runs, typed). c.fire_selected.ensures.script m (runs, typed) (c.in-Ok.ensures.indices m runs.clauses_mean.each)
