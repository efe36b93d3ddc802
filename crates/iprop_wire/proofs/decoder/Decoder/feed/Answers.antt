use Rattle.std.proofs.Common.{◌∙◌, sym, arith}
use Rattle.std.proofs.lemmas.Bool.{false≢true}
use Rattle.std.proofs.lemmas.List.{nil_from_length}
use Rattle.iprop_wire.specs.Answers.{begun}
use Rattle.iprop_wire.specs.declared.faults.FrameFault.TheVariants.{BadFrame, MemoryOut}
use Rattle.iprop_wire.proofs.Steps.{stays_broken, stopped, waits_on}
use Rattle.iprop_wire.proofs.decoder.Decoder.feed.Goals as goal
use Rattle.iprop_wire.proofs.decoder.Decoder.feed.Goals.{then-loop-self-test+else-not-is_empty, else-loop-self-test}

pub returns-then-is_some-clause-ok : goal.returns-then-is_some-clause-ok
returns-then-is_some-clause-ok c =
    waits_on c.self.inside.waiting c.self.inside.fault (begun c.self.inside.progress) c.self.inside.held.items
    c.args.self.now c.args.piece.now c.self.view_is (grind arith)

pub returns-in-Some-clause-bad : goal.returns-in-Some-clause-bad
returns-in-Some-clause-bad c =
    stays_broken c.self.inside.waiting c.self.inside.fault c.in-Some.fault (begun c.self.inside.progress)
    c.self.inside.held.items c.args.self.now c.args.piece.now c.self.view_is (grind arith) c.in-Some.is

pub returns-in-Err-clause-broken : goal.returns-in-Err-clause-broken
returns-in-Err-clause-broken c = λ e. c.in-Err.ensures.fault BadFrame e

pub returns-in-Err-clause-spent : goal.returns-in-Err-clause-spent
returns-in-Err-clause-spent c = λ e. c.in-Err.ensures.fault MemoryOut e

pub returns-clause-ok : goal.returns-clause-ok
returns-clause-ok c =
    stopped c.args.self.now c.loop-self.self c.args.piece.now c.loop-self.rest.now c.loop-self.invariant.0
    c.loop-self.invariant.1.0 c.loop-self.invariant.1.1.0 c.loop-self.invariant.1.1.1.0
    (λ going. elim c.loop-self-test.branch [
      | then-loop-self-test+else-not-is_empty w ↦
          nil_from_length c.loop-self.rest.now (grind (arith, w.is_empty.ensures, w.if-not-is_empty.false))
      | else-loop-self-test w ↦ absurd (false≢true (sym w.loop-self-test.false ∙ c.takes.ensures ∙ going))
    ])
