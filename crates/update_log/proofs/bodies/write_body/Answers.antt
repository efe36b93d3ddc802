use Rattle.std.proofs.Common.{rules, ◌≡◌, ◌-◌, ◌++◌, length, List, ℕ, ◌∙◌, ap}
use Rattle.kdb_format.specs.Spellings.{zeros}
use Rattle.princ_rows.specs.Entries.{logged}
use Rattle.princ_rows.specs.declared.entries.Logged.{Logged}
use Rattle.update_log.proofs.Spelled.{spelled, long_body}
use Rattle.update_log.proofs.bodies.write_body.Goals as goal

pub returns-clause-long : goal.returns-clause-long
returns-clause-long c =
    let l : Logged = record { entry = c.args.entry.now; cell = c.args.cell } in
    let text = logged l in
    let wrote : c.push_logged.new.out.items ≡ text =
    c.in_ok-push_logged.ensures ∙ ap (λ (b : List ℕ). b ++ text) c.in_ok-body.ensures.items in
    let len : c.len.result ≡ length c.push_logged.new.out.items = search rules in
    let rest : (c.args.block - 1) - c.len.result ≡ (c.args.block - 1) - length text =
    ap (λ (n : ℕ). (c.args.block - 1) - n) (len ∙ ap (λ (b : List ℕ). length b) wrote) in
    long_body (c.args.block - 1) l c.push_zeros.new.out.items c.requires.spelled.short (c.in_ok-push_zeros.ensures
    ∙ ap (λ (b : List ℕ). b ++ zeros ((c.args.block - 1) - c.len.result)) wrote ∙ ap (λ (n : ℕ). text ++ zeros n) rest)

pub returns-clause-spelled : goal.returns-clause-spelled
returns-clause-spelled c =
    let l : Logged = record { entry = c.args.entry.now; cell = c.args.cell } in
    let text = logged l in
    let wrote : c.push_logged.new.out.items ≡ text =
    c.in_ok-push_logged.ensures ∙ ap (λ (b : List ℕ). b ++ text) c.in_ok-body.ensures.items in
    let len : c.len.result ≡ length c.push_logged.new.out.items = search rules in
    let rest : (c.args.block - 1) - c.len.result ≡ (c.args.block - 1) - length text =
    ap (λ (n : ℕ). (c.args.block - 1) - n) (len ∙ ap (λ (b : List ℕ). length b) wrote) in
    spelled c.args.block l c.push_zeros.new.out.items c.requires.spelled (c.in_ok-push_zeros.ensures
    ∙ ap (λ (b : List ℕ). b ++ zeros ((c.args.block - 1) - c.len.result)) wrote ∙ ap (λ (n : ℕ). text ++ zeros n) rest)
