use Rattle.syn_rules.proofs.recursion.+parts.Given as goal

abbrev pub decreases-read_type : goal.decreases-read_type
decreases-read_type l = l.depth

abbrev pub decreases-read_expr : goal.decreases-read_expr
decreases-read_expr l = l.depth

abbrev pub decreases-constraint_bounds : goal.decreases-constraint_bounds
decreases-constraint_bounds l = l.depth
