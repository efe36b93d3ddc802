-- The report of policies.
use Rattle.std.specs.Prelude.{ℕ, List, ◌++◌, codes}
use Rattle.std.specs.Fmt.{decimal}
use Rattle.std.specs.List.{flat_map}
use Rattle.policy_rules.specs.Rules.{Rules}
use Rattle.princ_record.specs.declared.princs.Princ.{Princ}
use Rattle.tab_reports.specs.Counts.{users_of}
use Rattle.tab_reports.specs.Principals.{line_feed, tab}

-- the name and the lives of passwords
unfoldable pub rules_front : Rules → List ℕ
rules_front q = q.name ++ (tab ++ (decimal q.max_life ++ (tab ++ (decimal q.min_life ++ tab))))

-- what it asks of passwords, and how many principals name it
unfoldable pub rules_rest : ℕ → Rules → List ℕ
rules_rest users q =
    decimal q.min_length
    ++ (tab ++ (decimal q.min_classes ++ (tab ++ (decimal q.history ++ (tab ++ (decimal users ++ line_feed))))))

abbrev pub rules_line : ℕ → Rules → List ℕ
rules_line users q = rules_front q ++ rules_rest users q

abbrev pub policy_line : List Princ → Rules → List ℕ
policy_line princs q = rules_line (users_of q.name princs) q

unfoldable pub policies_header : List ℕ
policies_header = codes "name\tmaxlife\tminlife\tminlength\tminclasses\thistory\tprincipals\n"

unfoldable pub policies_text : List Princ → List Rules → List ℕ
policies_text princs policies = policies_header ++ flat_map (policy_line princs) policies
