use Rattle.std.proofs.Common.{ap, ◌∙◌}
use Rattle.master_keys.specs.Faults.{chain_fault}
use Rattle.master_keys.proofs.Chains.{chain_opens, opened_versions, found, not_found, opens_listed}
use Rattle.master_keys.proofs.opening.open_with.Goals as goal

pub returns-then-not-has_version-clause-complete : goal.returns-then-not-has_version-clause-complete
returns-then-not-has_version-clause-complete c masters o =
    absurd (not_found c.args.entry.now.keys c.as_slice.result.now
    c.args.version c.has_version.result c.as_slice.ensures c.has_version.ensures c.if-not-has_version.true
    (opens_listed c.args.entry.now c.args.version c.args.key.now masters o))

pub returns-then-not-has_version-clause-unknown : goal.returns-then-not-has_version-clause-unknown
returns-then-not-has_version-clause-unknown c asked e has =
    not_found c.args.entry.now.keys c.as_slice.result.now c.args.version c.has_version.result c.as_slice.ensures
    c.has_version.ensures c.if-not-has_version.true has

pub returns-in-Ok-clause-versions : goal.returns-in-Ok-clause-versions
returns-in-Ok-clause-versions c =
    opened_versions c.in-Ok.ensures.ok.newest c.args.entry.now c.in-Ok.masters c.in-Ok.ensures.ok.keys

pub returns-in-Ok-clause-only_unknown : goal.returns-in-Ok-clause-only_unknown
returns-in-Ok-clause-only_unknown c none =
    absurd (none (found c.args.entry.now.keys c.as_slice.result.now c.args.version c.has_version.result
    c.as_slice.ensures c.has_version.ensures c.if-not-has_version.false))

pub returns-in-Err-clause-only_unknown : goal.returns-in-Err-clause-only_unknown
returns-in-Err-clause-only_unknown c none =
    absurd (none (found c.args.entry.now.keys c.as_slice.result.now c.args.version c.has_version.result
    c.as_slice.ensures c.has_version.ensures c.if-not-has_version.false))

pub returns-in-Err-clause-known : goal.returns-in-Err-clause-known
returns-in-Err-clause-known c e =
    found c.args.entry.now.keys c.as_slice.result.now c.args.version c.has_version.result c.as_slice.ensures
    c.has_version.ensures c.if-not-has_version.false

pub returns-in-Err-clause-complete : goal.returns-in-Err-clause-complete
returns-in-Err-clause-complete c masters o = c.from.ensures ∙ ap chain_fault (c.in-Err.ensures.only masters o)

pub returns-in-Err-clause-wrong : goal.returns-in-Err-clause-wrong
returns-in-Err-clause-wrong c e masters o =
    let memory = c.from.ensures ∙ ap chain_fault (c.in-Err.ensures.only masters o) in
    cc

pub returns-then-not-has_version-clause-chain : goal.returns-then-not-has_version-clause-chain
returns-then-not-has_version-clause-chain c masters h lists =
    returns-then-not-has_version-clause-complete c masters
    (chain_opens c.args.entry.now masters h c.args.version c.args.key.now lists)

pub returns-in-Ok-clause-chain : goal.returns-in-Ok-clause-chain
returns-in-Ok-clause-chain c masters h lists =
    c.in-Ok.ensures.only masters (chain_opens c.args.entry.now masters h c.args.version c.args.key.now lists)

pub returns-in-Err-clause-chain : goal.returns-in-Err-clause-chain
returns-in-Err-clause-chain c masters h lists =
    returns-in-Err-clause-complete c masters
    (chain_opens c.args.entry.now masters h c.args.version c.args.key.now lists)
