-- The law of output texts.
use Rattle.std.specs.Prelude.{◌≡◌}
use Rattle.nz_blocks.specs.Outcomes.{OutcomeData, IsOutcome}
use Rattle.nz_blocks.specs.Held.{IsHeld}
use Rattle.nz_blocks.specs.Output.{text_of}

-- a text is the text of one outcome
abbrev pub OneOutcome : Type 0
OneOutcome = (o p : OutcomeData) → IsOutcome o → IsOutcome p → IsHeld o → IsHeld p → text_of o ≡ text_of p → o ≡ p
