-- The next of the lines that are held.
use Rattle.std.proofs.Common.{true, sym, subst, ap, ◌∙◌, List, ℕ, Bool}
use Rattle.kadm_lines.specs.Windows.{Parts}
use Rattle.kadm_lines.specs.Steps.{Answers, line_seen}
use Rattle.kadm_lines.proofs.Steps.{gives-fed, keeps-then, keeps-all}
use Rattle.kadm_lines.proofs.readers.LineReader.take_held.Goals as goal

pub returns-then-cut_line-clause-next : goal.returns-then-cut_line-clause-next
returns-then-cut_line-clause-next c =
    let cut = c.cut_line.ensures.cut c.if-cut_line.true in
    let parts = subst (λ (t : List ℕ). Parts t c.cut_line.new.self.text c.judge.new.self.pending)
    (ap (λ s. s.pending) c.self.view_is)
    (subst (λ (t : List ℕ). Parts c.self.inside.window.pending c.cut_line.new.self.text t)
    (sym c.judge.ensures.pending) cut) in
    let line = subst (λ (k : Bool). Answers c.judge.result c.judge.new.self.text (line_seen k (record {
      bytes = c.cut_line.new.self.text;
      ended = true;
    })))
    (ap (λ s. s.skipping) c.self.view_is) c.judge.ensures.line in
    gives-fed c.judge.result c.args.self.now c.judge.new.self c.cut_line.new.self.text parts line c.judge.ensures.within
    (c.judge.ensures.over ∙ ap (λ s. s.over) c.self.view_is)

pub returns-clause-same : goal.returns-clause-same
returns-clause-same c = λ _. keeps-then _ _ _
    (keeps-all c.args.self.now _ (ap (λ s. s.skipping) c.self.view_is) (c.cut_line.ensures.kept c.if-cut_line.false
    ∙ ap (λ s. s.pending) c.self.view_is) (ap (λ s. s.over) c.self.view_is)) c.give_up.ensures.same
