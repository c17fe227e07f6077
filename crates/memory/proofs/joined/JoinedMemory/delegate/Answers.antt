-- The part that a home lies in does all, and the other part stays.
use Rattle.std.proofs.Common.{arith, rules}
use Rattle.memory.proofs.Joining.{Second, answered_second, performed_first, performed_second, spare_second}
use Rattle.memory.proofs.joined.JoinedMemory.delegate.Goals as goal

pub returns-in-First-clause-after : goal.returns-in-First-clause-after
returns-in-First-clause-after g c =
    let a = g.P.ReadMemory.words c.args.self.now.first in
    let b = g.Q.ReadMemory.words c.args.self.now.second in
    let f = rw c.in-First.is at c.in_ok-near.ensures in
    let t = performed_first a b c.args.home c.args.offset c.args.operation (omega arith) (omega arith) in
    search rules

pub returns-in-Second : goal.returns-in-Second
returns-in-Second g c =
    let a = g.P.ReadMemory.words c.args.self.now.first in
    let b = g.Q.ReadMemory.words c.args.self.now.second in
    let home = c.args.home in
    let far = c.in-Second.far in
    let offset = c.args.offset in
    let op = c.args.operation in
    let f = rw c.in-Second.is at c.in_ok-near.ensures in
    let s : Second a home far = record { is = omega arith; past = omega arith; within = omega arith } in
    let t = performed_second a b home far offset op s in
    let u = answered_second a b home far offset op s in
    let v = spare_second a b home far offset op s in
    let k = g.P.Memory.rest.stays c.args.self.now.first in
    search rules
