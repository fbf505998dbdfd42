pub mod UntoldPort
