-- A line takes bytes off.
use Rattle.pgtrace_lines.proofs.Common.{ℕ, ◌<◌, List, [], length, ap, arith, inl, inr, length-append, Style, LineOf, Listed, View, Side, Server, Client, expected, Beginning, Messages, Replicating, Encrypted, HasLine}
use Rattle.pgtrace_lines.proofs.ClientLines.{step_long}
use Rattle.pgtrace_lines.proofs.FrameLines.{frame_long}

pub frame_has : (style : Style) (place : ℕ) (from to : Side) (frame line : List ℕ) → LineOf style place from frame line to → 0 < length frame
frame_has style place (Server Beginning) to frame line (inl is) = omega (arith, ap length is.reported.whole)
frame_has style place (Server Beginning) to frame line (inr is) = omega (arith, frame_long is.reported.first frame is.reported.whole)
frame_has style place (Server Messages) to frame line is = omega (arith, frame_long is.0.first frame is.0.whole)
frame_has style place (Server Replicating) to frame line is = omega (arith, frame_long is.0.first frame is.0.whole)
frame_has style place (Server Encrypted) to frame line is = absurd is
frame_has style place (Client opened kinds replicating) to frame line is = omega (arith, step_long (expected kinds) (record { bytes = frame; opened = opened }) (record { bytes = []; opened = is.now }) is.reported.result is.reported.step)

pub shorter : (style : Style) (place : ℕ) (from to : Side) (old new line name : List ℕ) → HasLine style place from old new line to name → length new < length old
shorter style place from to old new line name has = omega (arith, ap length has.whole, length-append has.frame new, frame_has style place from to has.frame line has.reported)

pub frame_some : (view : View) (place : ℕ) (from to : Side) (frame text : List ℕ) → Listed view place from frame text to → 0 < length frame
frame_some view place from to frame text has = frame_has view.style place from to frame has.line has.reported
