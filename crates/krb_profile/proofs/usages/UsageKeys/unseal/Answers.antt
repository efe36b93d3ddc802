use Rattle.std.proofs.Common.{◌≡◌, ◌∙◌, ap, sym, subst}
use Rattle.krb_profile.specs.Kept.{IsKept, use_of}
use Rattle.krb_profile.specs.declared.usages.Kept.{Kept}
use Rattle.krb_profile.proofs.Told.{unseals_1, unseals_2}
use Rattle.krb_profile.proofs.usages.UsageKeys.unseal.Goals as goal

pub returns-in-Sha1-clause-ok : goal.returns-in-Sha1-clause-ok
returns-in-Sha1-clause-ok c =
    let u = c.in-Sha1.keys in
    let kind = subst (λ (k : Kept). IsKept k) c.in-Sha1.is c.self.invariant in
    let same : u ≡ c.args.self.now = sym (ap use_of c.in-Sha1.is) ∙ c.self.view_is in
    (unseals_1 u c.args.self.now c.args.blob.now c.unseal.result kind same
    c.unseal.ensures.ok c.unseal.ensures.short c.unseal.ensures.bad_tag c.unseal.ensures.after_seal
    c.unseal.ensures.wrong_tag).ok

pub returns-in-Sha1-clause-short : goal.returns-in-Sha1-clause-short
returns-in-Sha1-clause-short c =
    let u = c.in-Sha1.keys in
    let kind = subst (λ (k : Kept). IsKept k) c.in-Sha1.is c.self.invariant in
    let same : u ≡ c.args.self.now = sym (ap use_of c.in-Sha1.is) ∙ c.self.view_is in
    (unseals_1 u c.args.self.now c.args.blob.now c.unseal.result kind same
    c.unseal.ensures.ok c.unseal.ensures.short c.unseal.ensures.bad_tag c.unseal.ensures.after_seal
    c.unseal.ensures.wrong_tag).short

pub returns-in-Sha1-clause-bad_tag : goal.returns-in-Sha1-clause-bad_tag
returns-in-Sha1-clause-bad_tag c =
    let u = c.in-Sha1.keys in
    let kind = subst (λ (k : Kept). IsKept k) c.in-Sha1.is c.self.invariant in
    let same : u ≡ c.args.self.now = sym (ap use_of c.in-Sha1.is) ∙ c.self.view_is in
    (unseals_1 u c.args.self.now c.args.blob.now c.unseal.result kind same
    c.unseal.ensures.ok c.unseal.ensures.short c.unseal.ensures.bad_tag c.unseal.ensures.after_seal
    c.unseal.ensures.wrong_tag).bad_tag

pub returns-in-Sha1-clause-after_seal : goal.returns-in-Sha1-clause-after_seal
returns-in-Sha1-clause-after_seal c =
    let u = c.in-Sha1.keys in
    let kind = subst (λ (k : Kept). IsKept k) c.in-Sha1.is c.self.invariant in
    let same : u ≡ c.args.self.now = sym (ap use_of c.in-Sha1.is) ∙ c.self.view_is in
    (unseals_1 u c.args.self.now c.args.blob.now c.unseal.result kind same
    c.unseal.ensures.ok c.unseal.ensures.short c.unseal.ensures.bad_tag c.unseal.ensures.after_seal
    c.unseal.ensures.wrong_tag).after_seal

pub returns-in-Sha1-clause-wrong_tag : goal.returns-in-Sha1-clause-wrong_tag
returns-in-Sha1-clause-wrong_tag c =
    let u = c.in-Sha1.keys in
    let kind = subst (λ (k : Kept). IsKept k) c.in-Sha1.is c.self.invariant in
    let same : u ≡ c.args.self.now = sym (ap use_of c.in-Sha1.is) ∙ c.self.view_is in
    (unseals_1 u c.args.self.now c.args.blob.now c.unseal.result kind same
    c.unseal.ensures.ok c.unseal.ensures.short c.unseal.ensures.bad_tag c.unseal.ensures.after_seal
    c.unseal.ensures.wrong_tag).wrong_tag

pub returns-in-Sha2-clause-ok : goal.returns-in-Sha2-clause-ok
returns-in-Sha2-clause-ok c =
    let u = c.in-Sha2.keys in
    let kind = subst (λ (k : Kept). IsKept k) c.in-Sha2.is c.self.invariant in
    let same : u ≡ c.args.self.now = sym (ap use_of c.in-Sha2.is) ∙ c.self.view_is in
    (unseals_2 u c.args.self.now c.args.blob.now c.unseal-in-Sha2.result kind same
    c.unseal-in-Sha2.ensures.ok c.unseal-in-Sha2.ensures.short c.unseal-in-Sha2.ensures.bad_tag
    c.unseal-in-Sha2.ensures.after_seal).ok

pub returns-in-Sha2-clause-short : goal.returns-in-Sha2-clause-short
returns-in-Sha2-clause-short c =
    let u = c.in-Sha2.keys in
    let kind = subst (λ (k : Kept). IsKept k) c.in-Sha2.is c.self.invariant in
    let same : u ≡ c.args.self.now = sym (ap use_of c.in-Sha2.is) ∙ c.self.view_is in
    (unseals_2 u c.args.self.now c.args.blob.now c.unseal-in-Sha2.result kind same
    c.unseal-in-Sha2.ensures.ok c.unseal-in-Sha2.ensures.short c.unseal-in-Sha2.ensures.bad_tag
    c.unseal-in-Sha2.ensures.after_seal).short

pub returns-in-Sha2-clause-bad_tag : goal.returns-in-Sha2-clause-bad_tag
returns-in-Sha2-clause-bad_tag c =
    let u = c.in-Sha2.keys in
    let kind = subst (λ (k : Kept). IsKept k) c.in-Sha2.is c.self.invariant in
    let same : u ≡ c.args.self.now = sym (ap use_of c.in-Sha2.is) ∙ c.self.view_is in
    (unseals_2 u c.args.self.now c.args.blob.now c.unseal-in-Sha2.result kind same
    c.unseal-in-Sha2.ensures.ok c.unseal-in-Sha2.ensures.short c.unseal-in-Sha2.ensures.bad_tag
    c.unseal-in-Sha2.ensures.after_seal).bad_tag

pub returns-in-Sha2-clause-after_seal : goal.returns-in-Sha2-clause-after_seal
returns-in-Sha2-clause-after_seal c =
    let u = c.in-Sha2.keys in
    let kind = subst (λ (k : Kept). IsKept k) c.in-Sha2.is c.self.invariant in
    let same : u ≡ c.args.self.now = sym (ap use_of c.in-Sha2.is) ∙ c.self.view_is in
    (unseals_2 u c.args.self.now c.args.blob.now c.unseal-in-Sha2.result kind same
    c.unseal-in-Sha2.ensures.ok c.unseal-in-Sha2.ensures.short c.unseal-in-Sha2.ensures.bad_tag
    c.unseal-in-Sha2.ensures.after_seal).after_seal

pub returns-in-Sha2-clause-wrong_tag : goal.returns-in-Sha2-clause-wrong_tag
returns-in-Sha2-clause-wrong_tag c =
    let u = c.in-Sha2.keys in
    let kind = subst (λ (k : Kept). IsKept k) c.in-Sha2.is c.self.invariant in
    let same : u ≡ c.args.self.now = sym (ap use_of c.in-Sha2.is) ∙ c.self.view_is in
    (unseals_2 u c.args.self.now c.args.blob.now c.unseal-in-Sha2.result kind same
    c.unseal-in-Sha2.ensures.ok c.unseal-in-Sha2.ensures.short c.unseal-in-Sha2.ensures.bad_tag
    c.unseal-in-Sha2.ensures.after_seal).wrong_tag

pub returns-in-Sha1-clause-bad_tag_sha2 : goal.returns-in-Sha1-clause-bad_tag_sha2
returns-in-Sha1-clause-bad_tag_sha2 c =
    let u = c.in-Sha1.keys in
    let kind = subst (λ (k : Kept). IsKept k) c.in-Sha1.is c.self.invariant in
    let same : u ≡ c.args.self.now = sym (ap use_of c.in-Sha1.is) ∙ c.self.view_is in
    (unseals_1 u c.args.self.now c.args.blob.now c.unseal.result kind same
    c.unseal.ensures.ok c.unseal.ensures.short c.unseal.ensures.bad_tag c.unseal.ensures.after_seal
    c.unseal.ensures.wrong_tag).bad_tag_sha2

pub returns-in-Sha2-clause-bad_tag_sha2 : goal.returns-in-Sha2-clause-bad_tag_sha2
returns-in-Sha2-clause-bad_tag_sha2 c =
    let u = c.in-Sha2.keys in
    let kind = subst (λ (k : Kept). IsKept k) c.in-Sha2.is c.self.invariant in
    let same : u ≡ c.args.self.now = sym (ap use_of c.in-Sha2.is) ∙ c.self.view_is in
    (unseals_2 u c.args.self.now c.args.blob.now c.unseal-in-Sha2.result kind same
    c.unseal-in-Sha2.ensures.ok c.unseal-in-Sha2.ensures.short c.unseal-in-Sha2.ensures.bad_tag
    c.unseal-in-Sha2.ensures.after_seal).bad_tag_sha2
