-- How large files may be that the program reads: limits that the standard has not, as numbers. The constants of the code are
-- these (`proofs/LimitLaws.antt`).
use Rattle.xml_state.specs.declared.limits.Limits.{Limits}

-- a document
abbrev pub document_limits : Limits
document_limits = record { bytes = 67108864; nodes = 4000000; depth = 100; attributes = 64; name = 200; names = 10000 }

-- a rule file
abbrev pub rule_limits : Limits
rule_limits = record { bytes = 4194304; nodes = 4000000; depth = 100; attributes = 64; name = 200; names = 10000 }
