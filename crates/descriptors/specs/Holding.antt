-- Which numbers are held for the standard streams.
use Rattle.std.specs.Prelude.{◌≡◌, pos, IfSome}
use Rattle.std.specs.Fd.{file_raw_fd}
use Rattle.descriptors.specs.declared.holding.Held.{Held}

-- Each file that is held stands at the number of its stream: 0 for input, 1 for output, 2 for errors.
abbrev pub HoldsOnly : Held → Type 0
HoldsOnly held = IfSome held.input (λ file. file_raw_fd file ≡ pos 0)
    × IfSome held.output (λ file. file_raw_fd file ≡ pos 1)
    × IfSome held.errors (λ file. file_raw_fd file ≡ pos 2)
