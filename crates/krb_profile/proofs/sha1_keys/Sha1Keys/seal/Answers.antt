use Rattle.std.proofs.Common.{◌≡◌, ◌≤◌, ◌∙◌, ap, ℕ, length, length-append, take, arith}
use Rattle.std.proofs.lemmas.List.{length-take-le}
use Rattle.kdb_base.specs.Etypes.{tag_len}
use Rattle.krb_profile.specs.Sha1.{tag}
use Rattle.krb_profile.proofs.Unsealing.{sealed_in_parts}
use Rattle.krb_profile.proofs.sha1_keys.Sha1Keys.seal.Goals as goal

pub returns-clause-bytes : goal.returns-clause-bytes
returns-clause-bytes c =
    let u = c.args.self.now in
    c.from_vec.ensures ∙ c.in_ok-extend_from_slice.ensures.items
    ∙ sealed_in_parts u.key u.usage c.tag_len.result c.args.confounder.now c.args.plain.now c.in_ok-text.text.items
    c.encrypted-blob.result.items c.tag-tag.result
    c.in_ok-text.ensures.text c.encrypted-blob.ensures.bytes c.tag_len.ensures.exact
    (c.tag-tag.ensures ∙ ap (tag u.key u.usage) c.deref.ensures.value)

pub returns-clause-sealed : goal.returns-clause-sealed
returns-clause-sealed c =
    let u = c.args.self.now in
    let fits : c.tag_len.result ≤ length c.tag-tag.result = omega (arith, c.tag_len.ensures.twelve) in
    let blob = ap length (c.from_vec.ensures ∙ c.in_ok-extend_from_slice.ensures.items) in
    let whole = ap length c.in_ok-text.ensures.text in
    let end : length (take c.tag_len.result c.tag-tag.result) ≡ tag_len u.key.etype =
    length-take-le c.tag_len.result c.tag-tag.result fits ∙ c.tag_len.ensures.exact in
    record {
      confounder = c.args.confounder.now;
      whole = c.told-confounder;
      bytes = rw c.in_ok-text.ensures.text at c.in_ok-text.ensures.bytes;
      long = omega (arith, blob, whole, end, c.encrypted-blob.ensures.len, c.told-confounder, length-append {A = ℕ});
      is = returns-clause-bytes c;
    }
