-- A processing instruction that is read byte by byte: what of its target can still matter, and whether `?` stands at its
-- end.
use Rattle.std.specs.Prelude.{ℕ, Bool, true, false, not, ◌&&◌, ◌||◌, ◌==◌, Option, Some, None, if◌then◌else◌}
use Rattle.std.specs.Char.{to_ascii_lowercase}
use Rattle.inv_base.specs.Characters.{is_white_space, is_name_start, is_name_char}
use Rattle.xml_tokens.specs.declared.kind.XmlKind.{XmlKind}
use Rattle.xml_tokens.specs.declared.kind.XmlKind.TheVariants.{BadDeclaration, BadMarkup}
use Rattle.xml_tokens.specs.WrittenNames.{is_colon}
use Rattle.xml_tokens.specs.declared.instructions.Letters.{Letters}
use Rattle.xml_tokens.specs.declared.instructions.Letters.TheVariants.{Zero, One, Two, Three, Other}
use Rattle.xml_tokens.specs.declared.instructions.Naming.{Naming}
use Rattle.xml_tokens.specs.declared.instructions.Naming.TheVariants.{Empty, Good, Bad}
use Rattle.xml_tokens.specs.declared.instructions.Written.{Written}
use Rattle.xml_tokens.specs.declared.instructions.Target.{Target}
use Rattle.xml_tokens.specs.declared.instructions.Target.TheVariants.{Going, Ended}
use Rattle.xml_tokens.specs.declared.instructions.InInstruction.{InInstruction}

-- The character may go on a target.
abbrev pub goes_on : ℕ → Bool
goes_on c = is_colon c || is_name_char c

-- the letters that are met where the character is the next one
abbrev pub met : ℕ → ℕ → Letters → Letters
met letter c next = if c == letter then next else Other

-- the letters of `xml` that are met behind a character
abbrev pub letters_behind : Letters → ℕ → Letters
letters_behind Zero c = met 0x78 c One
letters_behind One c = met 0x6D c Two
letters_behind Two c = met 0x6C c Three
letters_behind Three c = Other
letters_behind Other c = Other

abbrev pub are_three : Letters → Bool
are_three Zero = false
are_three One = false
are_three Two = false
are_three Three = true
are_three Other = false

abbrev pub named_if : Bool → Naming
named_if good = if good then Good else Bad

-- whether it is a name behind a character
abbrev pub naming_behind : Naming → ℕ → Naming
naming_behind Empty c = named_if (is_name_start c)
naming_behind Good c = named_if (is_name_char c)
naming_behind Bad c = Bad

abbrev pub is_good : Naming → Bool
is_good Empty = false
is_good Good = true
is_good Bad = false

-- the target with a character more
abbrev pub written_behind : Written → ℕ → Written
written_behind written c = record {
  naming = naming_behind written.naming c;
  exact = letters_behind written.exact c;
  folded = letters_behind written.folded (to_ascii_lowercase c);
}

-- the fault of a target that ends, by whether nothing or white space is behind it: `xml` is that of the declaration
-- alone
abbrev pub target_fault : Written → Bool → Option XmlKind
target_fault written right =
    if are_three written.exact then Some BadDeclaration
    else (if (is_good written.naming && not (are_three written.folded)) && right then None else Some BadMarkup)

-- the target behind a character
abbrev pub target_behind : Target → ℕ → Target
target_behind (Going written) c = if goes_on c then Going (written_behind written c) else Ended (target_fault written (is_white_space c))
target_behind (Ended fault) c = Ended fault

-- the target behind a byte that may end a character
abbrev pub target_with : Target → Option ℕ → Target
target_with target None = target
target_with target (Some c) = target_behind target c

-- the fault of a target behind which the instruction ends
abbrev pub fault_of_target : Target → Option XmlKind
fault_of_target (Going written) = target_fault written true
fault_of_target (Ended fault) = fault

abbrev pub no_target : Target
no_target = Going (record { naming = Empty; exact = Zero; folded = Zero })

-- nothing has come of what stands inside
abbrev pub begun : InInstruction
begun = record { before = no_target; target = no_target; is_asked = false }

-- The byte ends the instruction.
abbrev pub is_ended_by : InInstruction → ℕ → Bool
is_ended_by instruction b = instruction.is_asked && b == 0x3E

-- the instruction with a byte that doesn't end it, and the Char that the byte ends if any
abbrev pub instruction_behind : InInstruction → ℕ → Option ℕ → InInstruction
instruction_behind instruction b c = record { before = instruction.target; target = target_with instruction.target c; is_asked = b == 0x3F }

-- the fault of what stands before the `?` at the end, where all are Chars
abbrev pub own_fault : InInstruction → Option XmlKind
own_fault instruction = fault_of_target instruction.before
