mod Blocks
mod Foreseeing
mod Foretold
mod Given
mod Looking
mod Requesting
mod Standing
