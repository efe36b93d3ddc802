use Rattle.std.proofs.Common.{◌≡◌, false, sym, subst}
use Rattle.replica_core.specs.Opened.{Opened, is_broken}
use Rattle.replica_core.proofs.Weaker.{unless_fault_weaker, whole_after}
use Rattle.replica_core.proofs.replica.Replica.take_reply.Goals as goal

pub invariant_of-self : goal.invariant_of-self
invariant_of-self g c = record {
  low = c.self.invariant.low;
  high = c.self.invariant.high;
  sized = c.take.ensures.sized c.self.inside.size c.self.invariant.sized;
}

pub returns-clause-whole : goal.returns-clause-whole
returns-clause-whole g c =
    let o : Opened =
    record { database = c.self.inside.database; size = c.self.inside.size; failed = c.self.inside.failed } in
    let before : is_broken o.database o.failed ≡ false =
    subst (λ (x : Opened). is_broken x.database x.failed ≡ false) (sym c.self.view_is) c.requires.whole in
    unless_fault_weaker c.take.result c.take.ensures.whole
    (whole_after o.database c.take.new.database o.failed c.take.ensures.based before)
