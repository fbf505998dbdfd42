-- The number and the text of each refusal.
use Rattle.std.specs.Prelude.{ℕ, List, codes}
use Rattle.lsv_request.specs.declared.refusal.Refusal.{Refusal}
use Rattle.lsv_request.specs.declared.refusal.Refusal.TheVariants.{UnexpectedMessage, MalformedMessage, MessageTooLarge, MissingKey, BadTime, BadSizeOrSignal, LogInUse, NoSuchLog, LogComplete, NoSuchResumePoint, LogDamaged, DeviceFault, NumbersSpent, LogFull, OutOfMemory}

abbrev pub refusal_number : Refusal → ℕ
refusal_number UnexpectedMessage = 1
refusal_number MalformedMessage = 2
refusal_number MessageTooLarge = 3
refusal_number MissingKey = 4
refusal_number BadTime = 5
refusal_number BadSizeOrSignal = 6
refusal_number LogInUse = 7
refusal_number NoSuchLog = 8
refusal_number LogComplete = 9
refusal_number NoSuchResumePoint = 10
refusal_number LogDamaged = 11
refusal_number DeviceFault = 12
refusal_number NumbersSpent = 13
refusal_number LogFull = 14
refusal_number OutOfMemory = 15

abbrev pub refusal_text : Refusal → List ℕ
refusal_text UnexpectedMessage = codes "unexpected message"
refusal_text MalformedMessage = codes "malformed message"
refusal_text MessageTooLarge = codes "message too large"
refusal_text MissingKey = codes "missing key"
refusal_text BadTime = codes "bad time"
refusal_text BadSizeOrSignal = codes "bad size or signal"
refusal_text LogInUse = codes "log in use"
refusal_text NoSuchLog = codes "no such log"
refusal_text LogComplete = codes "log complete"
refusal_text NoSuchResumePoint = codes "no such resume point"
refusal_text LogDamaged = codes "log damaged"
refusal_text DeviceFault = codes "device fault"
refusal_text NumbersSpent = codes "numbers spent"
refusal_text LogFull = codes "log full"
refusal_text OutOfMemory = codes "out of memory"
