use Rattle.std.proofs.Common.{◌≡◌, ◌∙◌, sym, subst, List, ℕ}
use Rattle.std.proofs.lemmas.List.{append_cancel_left}
use Rattle.kdb_base.specs.Etypes.{key_len}
use Rattle.kdb_format.specs.Spellings.{little}
use Rattle.krb_profile.specs.Profile.{IsSealed}
use Rattle.master_keys.proofs.Errors.{not_wrong}
use Rattle.master_keys.proofs.wrapping.MasterKey.unwrap.Goals as goal

pub returns-in-Some-clause-only : goal.returns-in-Some-clause-only
returns-in-Some-clause-only c key u =
    let same : u.text ≡ c.in-Some.text.now = append_cancel_left (little 2 (key_len c.args.etype)) u.text
    c.in-Some.text.now (sym u.blob_is ∙ c.in-Some.ensures.some) in
    c.unsealed.ensures.only key u.of_type u.long
    (subst (λ (t : List ℕ). IsSealed c.args.self.now 0 t key.bytes) same u.sealed)

pub returns-in-Some-clause-wrong : goal.returns-in-Some-clause-wrong
returns-in-Some-clause-wrong c e key u =
    let found = returns-in-Some-clause-only c key u in
    not_wrong key c.unsealed.result e found
