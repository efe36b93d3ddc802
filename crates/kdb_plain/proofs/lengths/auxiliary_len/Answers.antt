use Rattle.std.proofs.Common.{Option, ap, sym, ◌∙◌}
use Rattle.std.specs.List.{sum_by}
use Rattle.kdb_base.specs.declared.keys.Etype.{Etype}
use Rattle.kdb_base.specs.declared.versions.Master.{Master}
use Rattle.kdb_plain.specs.Lengths.{aux_len, aux_lens, in_64_bits, older_masters}
use Rattle.kdb_plain.proofs.Lasts.{last_is}
use Rattle.kdb_plain.proofs.lengths.auxiliary_len.Goals as goal

pub returns-in-len1-up : goal.returns-in-len1-up
returns-in-len1-up c =
    let older = older_masters c.args.masters.now in
    c.aux_lens.ensures
    ∙ ap (λ (e : Etype). in_64_bits (sum_by (aux_len e) older)) c.etype.ensures
    ∙ ap (λ (o : Option Master). in_64_bits (aux_lens o older))
    (sym (last_is c.args.masters.now c.newest-item.result c.in-len1-up.len_at_least c.newest-item.is))
