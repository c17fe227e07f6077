use Rattle.law.proofs.Beyond.{beyond_kept}
use Rattle.law.proofs.Job.{every_job}
use Rattle.job.proofs.run.run_job.Goals as goal

pub returns-clause-beyond : goal.returns-clause-beyond
returns-clause-beyond g c =
    let done = c.run_calls.ensures in
    let laid = c.layout.ensures in
    rw (done.words, done.records, laid.words, laid.records)
    (beyond_kept c.args.plan.now (g.M.ReadMemory.words c.args.memory.now) c.args.records.now c.args.calls.now)

pub returns-clause-law : goal.returns-clause-law
returns-clause-law g c =
    every_job c.args.plan.now (g.M.ReadMemory.words c.args.memory.now) c.args.records.now c.args.calls.now
    (rw (← c.if-not-has_room.ensures))
