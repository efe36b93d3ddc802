use Rattle.krb_bench.proofs.Samples.{pushed, two_keys}
use Rattle.krb_bench.proofs.records.sample_keys.Goals as goal

pub returns : goal.returns
returns c =
    two_keys c.from_vec.result c.in_ok-sample_key.field-0 c.in_ok-sample_key-2.field-0
    (pushed c.new-keys.result.items c.push.new.self.items c.push-2.new.self.items c.from_vec.result
    c.in_ok-sample_key.field-0 c.in_ok-sample_key-2.field-0 c.new-keys.ensures.items c.in_ok-push.ensures.items
    c.in_ok-push-2.ensures.items c.from_vec.ensures)
    c.in_ok-sample_key.ensures.key c.in_ok-sample_key-2.ensures.key c.in_ok-sample_key.ensures.version
    c.in_ok-sample_key-2.ensures.version c.in_ok-sample_key.ensures.etype c.in_ok-sample_key-2.ensures.etype
