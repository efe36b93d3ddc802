use Rattle.std.proofs.Common.{◌≡◌, ◌∙◌, ap, sym, subst}
use Rattle.krb_profile.specs.Kept.{IsKept, use_of}
use Rattle.krb_profile.specs.declared.usages.Kept.{Kept}
use Rattle.krb_profile.proofs.Told.{seals_1, seals_2}
use Rattle.krb_profile.proofs.usages.UsageKeys.seal.Goals as goal

pub returns-in-Sha1-clause-bytes : goal.returns-in-Sha1-clause-bytes
returns-in-Sha1-clause-bytes c =
    let u = c.in-Sha1.keys in
    let kind = subst (λ (k : Kept). IsKept k) c.in-Sha1.is c.self.invariant in
    let same : u ≡ c.args.self.now = sym (ap use_of c.in-Sha1.is) ∙ c.self.view_is in
    (seals_1 u c.args.self.now c.args.confounder.now c.args.plain.now c.seal.result kind same c.seal.ensures.bytes
    c.seal.ensures.sealed).bytes

pub returns-in-Sha1-clause-sealed : goal.returns-in-Sha1-clause-sealed
returns-in-Sha1-clause-sealed c =
    let u = c.in-Sha1.keys in
    let kind = subst (λ (k : Kept). IsKept k) c.in-Sha1.is c.self.invariant in
    let same : u ≡ c.args.self.now = sym (ap use_of c.in-Sha1.is) ∙ c.self.view_is in
    (seals_1 u c.args.self.now c.args.confounder.now c.args.plain.now c.seal.result kind same c.seal.ensures.bytes
    c.seal.ensures.sealed).sealed

pub returns-in-Sha2-clause-bytes : goal.returns-in-Sha2-clause-bytes
returns-in-Sha2-clause-bytes c =
    let u = c.in-Sha2.keys in
    let kind = subst (λ (k : Kept). IsKept k) c.in-Sha2.is c.self.invariant in
    let same : u ≡ c.args.self.now = sym (ap use_of c.in-Sha2.is) ∙ c.self.view_is in
    (seals_2 u c.args.self.now c.args.confounder.now c.args.plain.now c.seal-in-Sha2.result kind same
    c.seal-in-Sha2.ensures.bytes c.seal-in-Sha2.ensures.sealed).bytes

pub returns-in-Sha2-clause-sealed : goal.returns-in-Sha2-clause-sealed
returns-in-Sha2-clause-sealed c =
    let u = c.in-Sha2.keys in
    let kind = subst (λ (k : Kept). IsKept k) c.in-Sha2.is c.self.invariant in
    let same : u ≡ c.args.self.now = sym (ap use_of c.in-Sha2.is) ∙ c.self.view_is in
    (seals_2 u c.args.self.now c.args.confounder.now c.args.plain.now c.seal-in-Sha2.result kind same
    c.seal-in-Sha2.ensures.bytes c.seal-in-Sha2.ensures.sealed).sealed
