use Rattle.std.proofs.Common.{refl, ap, ◌∙◌}
use Rattle.princ_name.specs.Bytes.{is_plain, is_sign, is_refused}
use Rattle.princ_name.specs.Printed.{is_printed, is_master, prints}
use Rattle.krb_bench.proofs.Samples.{sample_is}
use Rattle.krb_bench.proofs.records.sample.Goals as goal

pub returns : goal.returns
unfolding is_printed is_master prints is_plain is_sign is_refused
returns c =
    sample_is c.in_ok-name.name c.in_ok-modifier.modifier c.in_ok-keys.keys c.from_vec.result c.new-2.result
    (ap is_printed c.in_ok-name.ensures ∙ refl)
    (ap is_master c.in_ok-name.ensures ∙ refl)
    (ap is_printed c.in_ok-modifier.ensures ∙ refl)
    c.in_ok-keys.ensures
    (c.from_vec.ensures ∙ c.new.ensures.items)
    c.new-2.ensures
